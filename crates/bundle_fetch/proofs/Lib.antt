mod Coded
mod Files
