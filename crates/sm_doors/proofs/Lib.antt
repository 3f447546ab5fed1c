mod NextLink
mod Numbered
