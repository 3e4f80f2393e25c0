pub mod PlaceHanded
