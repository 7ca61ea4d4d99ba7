pub mod StatusText
