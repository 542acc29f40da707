pub mod Lending
pub mod Laws
