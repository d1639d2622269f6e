use Rattle.fb_words.proofs.screen.Screen.admit.Given as goal

abbrev pub ghosts-admit_as : goal.ghosts-admit_as
ghosts-admit_as a = record { number = a.step_limit }
