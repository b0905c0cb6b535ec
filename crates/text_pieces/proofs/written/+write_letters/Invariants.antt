use Rattle.text_pieces.proofs.written.+write_letters.Given as goal

abbrev pub decreases-write_letters : goal.decreases-write_letters
decreases-write_letters l = l.most
