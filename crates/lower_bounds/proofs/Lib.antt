pub mod Lacking
pub mod Texts
