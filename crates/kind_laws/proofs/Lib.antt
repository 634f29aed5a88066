pub mod TablesAgree
