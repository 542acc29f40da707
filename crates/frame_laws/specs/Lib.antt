pub mod BytesStay
