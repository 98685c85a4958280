pub mod Ring
pub mod Window
