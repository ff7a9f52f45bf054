mod Maps
pub mod Turns
pub mod LateTwins
pub mod Exchanges
pub mod Orders
pub mod HandOut
pub mod FirstLeaves
pub mod SettlingLaw
pub mod Within
pub mod OneHanding
pub mod Obeyed
pub mod Least
pub mod FarApart
pub mod Refuting
