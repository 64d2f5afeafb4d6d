-- What a topology file says. A name that ends in `_checks` is a list of checks in their order, each with the refusal
-- that it gives; one that ends in `_of` is the value of a table that passes them. For both the key is the field of
-- [FORMATS.md](FORMATS.md#topology).
pub mod PlaceText
pub mod Fields
pub mod Distance
pub mod Controllers
pub mod Opening
pub mod Near
pub mod Topology
pub mod Names
pub mod Readable
pub mod Facts
pub mod Fits
