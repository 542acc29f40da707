mod BytesStay
