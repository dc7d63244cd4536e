pub mod Wide
pub mod WideLaws
pub mod Plain
pub mod PlainLaws
