-- Numbers as text: in decimal without leading zeros, or in hexadecimal with as many digits as asked for. Assumes nothing.
use Rattle.std.specs.Prelude.{cond, List, [], ◌∷◌, ◌++◌, ℕ, zero, suc, ◌+◌, ◌/◌, ◌%◌, ltb}

-- a number in decimal, in at most so many digits; 64 bits take 20
unfoldable pub digits : ℕ → ℕ → List ℕ
digits zero number = []
digits (suc most) number = cond (ltb number 10) [] (digits most (number / 10)) ++ (48 + number % 10) ∷ []

-- numbers with a space between, and a line feed
unfoldable pub line : List ℕ → List ℕ
line [] = 10 ∷ []
line (number ∷ []) = digits 20 number ++ 10 ∷ []
line (number ∷ next ∷ numbers) = digits 20 number ++ 32 ∷ line (next ∷ numbers)

-- numbers, each after a space
unfoldable pub spaced : List ℕ → List ℕ
spaced [] = []
spaced (number ∷ numbers) = 32 ∷ (digits 20 number ++ spaced numbers)

-- a number below 16 as a digit, 0 to 9 and a to f
unfoldable pub hex_digit : ℕ → ℕ
hex_digit number = cond (ltb number 10) (48 + number) (87 + number)

-- a number in hexadecimal, in exactly so many digits; 32 bits take 8
unfoldable pub hex_digits : ℕ → ℕ → List ℕ
hex_digits zero number = []
hex_digits (suc width) number = hex_digits width (number / 16) ++ hex_digit (number % 16) ∷ []
