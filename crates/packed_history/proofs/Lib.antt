mod Clean
mod Kept
mod Packing
