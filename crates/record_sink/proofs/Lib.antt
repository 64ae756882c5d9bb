mod Paid
