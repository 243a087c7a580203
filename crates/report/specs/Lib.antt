pub mod Input
pub mod Cut
pub mod Text
pub mod TextLaws
