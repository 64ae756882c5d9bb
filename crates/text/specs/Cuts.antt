-- How a text is cut into lines, words and parts. Texts are lists of bytes.
use Rattle.std.specs.Prelude.{ℕ, ◌+◌, Bool, cond, not, ◌||◌, List, length, take, drop, Some, None, Option, ◌==◌, nat_lt}
use Rattle.std.specs.List.{prefix_len}

-- how many bytes stand before the first `b`
abbrev pub up_to : ℕ → List ℕ → ℕ
up_to b s = prefix_len (λ x. not (x == b)) s

-- space, tab and carriage return
abbrev pub blank : ℕ → Bool
blank b = b == 32 || b == 9 || b == 13

-- t, or none where s is empty
abbrev pub unless_empty : List ℕ → List ℕ → Option (List ℕ)
unless_empty s t = cond (length s == 0) None (Some t)

-- the first line, if anything is left: what stands before the first newline
abbrev pub first_line : List ℕ → Option (List ℕ)
first_line s = unless_empty s (take (up_to 10 s) s)

-- what follows the first newline
abbrev pub after_line : List ℕ → List ℕ
after_line s = drop (up_to 10 s + 1) s

-- what stands before a `#`
abbrev pub uncommented : List ℕ → List ℕ
uncommented s = take (up_to 35 s) s

-- a text from its first byte that is no blank
abbrev pub trimmed : List ℕ → List ℕ
trimmed s = drop (prefix_len blank s) s

-- how long the word is that a text begins with
abbrev pub word_length : List ℕ → ℕ
word_length s = prefix_len (λ x. not (blank x)) s

-- the first word, if there is any
abbrev pub first_word : List ℕ → Option (List ℕ)
first_word s = unless_empty (trimmed s) (take (word_length (trimmed s)) (trimmed s))

-- what follows the first word
abbrev pub after_word : List ℕ → List ℕ
after_word s = drop (word_length (trimmed s)) (trimmed s)

-- what follows the first `b`, if there is one
abbrev pub after : ℕ → List ℕ → Option (List ℕ)
after b s = cond (nat_lt (up_to b s) (length s)) (Some (drop (up_to b s + 1) s)) None

-- the first part, where a text is left: what stands before the first separator
abbrev pub first_part : ℕ → Option (List ℕ) → Option (List ℕ)
first_part b None = None
first_part b (Some s) = Some (take (up_to b s) s)

-- what follows the first separator, if there is one
abbrev pub after_part : ℕ → Option (List ℕ) → Option (List ℕ)
after_part b None = None
after_part b (Some s) = after b s

-- no text has more parts than this
abbrev pub parts_at_most : Option (List ℕ) → ℕ
parts_at_most None = 0
parts_at_most (Some s) = length s + 1
