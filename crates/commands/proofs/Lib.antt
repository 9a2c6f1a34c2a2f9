mod Asking
mod Lists
mod Refusing
