pub mod EventLine
pub mod Read
pub mod Trail
