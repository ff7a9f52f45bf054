mod Fitted
mod Stood
mod Proven
