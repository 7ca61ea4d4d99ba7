mod Ahead
mod Numbers
