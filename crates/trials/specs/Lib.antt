pub mod Trials
pub mod Others
pub mod Steps
pub mod ClaimTrials
pub mod WideTrials
pub mod DisjointTrials
