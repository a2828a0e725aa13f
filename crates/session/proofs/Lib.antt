mod Keeps
