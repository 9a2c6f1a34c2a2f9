-- What the requests of a piece have their draws from: 64 draws that are the piece's own, each by 16 words of a generator.
use Rattle.std.specs.Prelude.{ℕ, ◌*◌, ◌-◌}
use Rattle.rand_chacha.specs.ChaCha.{ChaCha}
use Rattle.http_edge.specs.Chance.{moved}
use Rattle.serving.specs.declared.piece_draws.PieceDraws.{PieceDraws}

-- so many words are the draws of a request
abbrev pub draws_words : ℕ
draws_words = 16

-- so many draws are a piece's own
abbrev pub draws_in_piece : ℕ
draws_in_piece = 64

-- those of the piece that is read next, by the generator's next words: none was taken
abbrev pub piece_draws : ChaCha → PieceDraws
piece_draws g = record { words = g; left = draws_in_piece }

-- a request took the next, whatever it demands
abbrev pub one_fewer_draws : PieceDraws → PieceDraws
one_fewer_draws draws = record { words = moved draws.words draws_words; left = draws.left - 1 }

-- the generator behind all draws of a piece, 1,024 words further, however many were taken
abbrev pub behind_piece : ChaCha → ChaCha
behind_piece g = moved g (draws_in_piece * draws_words)
