pub mod AddressHash
