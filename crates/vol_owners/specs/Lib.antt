pub mod Owner
pub mod Account
pub mod Change
pub mod Room
pub mod Carried
