pub mod Address
pub mod Asn
pub mod Canonical
pub mod Family
pub mod Fqdn
pub mod Network
pub mod PlainUrl
pub mod Url
