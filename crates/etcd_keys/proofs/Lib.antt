mod Numbers
mod Apart
