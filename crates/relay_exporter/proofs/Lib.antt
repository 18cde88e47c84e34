mod Guarded
