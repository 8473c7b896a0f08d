pub mod Octets
pub mod PacketTime
pub mod Sample
pub mod Head
pub mod Datagram
