pub mod Systems
pub mod Codes
pub mod Keys
pub mod Digits
pub mod Cas
pub mod Export
pub mod CasLaws
pub mod DigitLaws
