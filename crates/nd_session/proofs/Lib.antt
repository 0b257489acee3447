mod StartLemmas
mod Logs
mod ReceiptLemmas
mod Filters
mod Whole
mod LogLemmas
mod Lookups
