mod Left
mod Members
mod Nothing
mod Open
mod Sharing
mod Turning
mod Working
