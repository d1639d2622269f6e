use Rattle.fb_words.proofs.screen.Screen.rise.Given as goal

abbrev pub ghosts-rise_as : goal.ghosts-rise_as
ghosts-rise_as a = record { number = a.stub.client }
