mod Closed
