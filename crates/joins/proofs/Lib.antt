mod Stages
