mod Anything
