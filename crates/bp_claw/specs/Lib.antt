pub mod AgreeBut
pub mod Answering
pub mod Claims
pub mod NoticeFiles
pub mod Refusing
pub mod Replacement
pub mod Staying
