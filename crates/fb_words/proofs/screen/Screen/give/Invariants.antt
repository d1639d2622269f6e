use Rattle.fb_words.proofs.screen.Screen.give.Given as goal

abbrev pub ghosts-give_as : goal.ghosts-give_as
ghosts-give_as a = record { entry = a.entry.now }
