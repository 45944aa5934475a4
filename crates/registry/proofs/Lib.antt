mod Described
mod Found
mod Served
mod Typed
