mod Idle
