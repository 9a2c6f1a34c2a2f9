-- Draws by a generator.
use Rattle.std.specs.Prelude.{ℕ, zero, suc, ◌+◌, ◌%◌, ◌^◌, List, [], ◌++◌, replicate}
use Rattle.http_edge.specs.Names.{Draws, Demand, Fresh, Nothing}
use Rattle.std.specs.Int.{w32, to_le_bytes}
use Rattle.rand_chacha.specs.ChaCha.{ChaCha, word_at}

-- one of the words that a generator of 20 rounds gives from now on, counted from 0
abbrev pub next_word_at : ChaCha → ℕ → ℕ
next_word_at g i = word_at 10 g.key g.stream ((g.word_pos + i) % 2 ^ 68)

-- so many of its words from that one on, the low byte of each first
abbrev pub bytes_from : ChaCha → ℕ → ℕ → List ℕ
bytes_from g i zero = []
bytes_from g i (suc n) = bytes_from g i n ++ to_le_bytes w32 (next_word_at g (i + n))

-- the draws by its next 16 words
abbrev pub next_draws : ChaCha → Draws
next_draws g = record { first = bytes_from g 0 8; second = bytes_from g 8 8 }

-- the generator so many words further
abbrev pub moved : ChaCha → ℕ → ChaCha
moved g n = record g { word_pos = (g.word_pos + n) % 2 ^ 68 }

-- those of a request that demands none
abbrev pub no_draws : Draws
no_draws = record { first = replicate 32 0; second = replicate 32 0 }

-- the draws of a request: the generator's next ones, where it demands some
abbrev pub draws_by : ChaCha → Demand → Draws
draws_by g Fresh = next_draws g
draws_by g Nothing = no_draws

-- the generator behind them
abbrev pub moved_by : ChaCha → Demand → ChaCha
moved_by g Fresh = moved g 16
moved_by g Nothing = g
