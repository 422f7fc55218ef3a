pub mod Bytes
pub mod Deeds
pub mod Gathers
pub mod Laws
pub mod Lending
pub mod Stands
