mod Plain
mod Rising
mod Written
