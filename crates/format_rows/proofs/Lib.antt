mod Fed
mod Followed
