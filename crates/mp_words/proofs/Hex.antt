-- Four hexadecimal digits.
use Rattle.std.proofs.Common.{ℕ, zero, suc, ◌+◌, ◌*◌, ◌^◌, ◌<◌, arith}

-- at most three of them are a number below 1000h
few_digits : (i n : ℕ) → i < 4 → n < 16 ^ i → n < 4096
few_digits zero n few small = omega arith
few_digits (suc zero) n few small = omega arith
few_digits (suc (suc zero)) n few small = omega arith
few_digits (suc (suc (suc zero))) n few small = omega arith
few_digits (suc (suc (suc (suc i)))) n few small = absurd (omega arith)

pub hex_fits : (i n v : ℕ) → i < 4 → n < 16 ^ i → v < 16 → n * 16 + v < 65536
hex_fits i n v few small low = let m : n < 4096 = few_digits i n few small in omega (arith, m)
