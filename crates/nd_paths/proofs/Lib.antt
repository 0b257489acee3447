pub mod PointOrder
mod Minimal
mod Arrivals
mod Places
