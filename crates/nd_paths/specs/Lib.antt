pub mod Point
pub mod Order
pub mod Laws
pub mod Arrival
