pub mod Join
pub mod Laws
pub mod Printable
pub mod Printed
