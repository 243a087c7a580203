pub mod Lent
pub mod FillLaws
pub mod PlaceLaws
pub mod Held
pub mod EditLaws
pub mod RoleLaws
pub mod QueryLaws
