pub mod InPlace
pub mod OtherWidth
