mod Forms
mod Walks
mod Texts
