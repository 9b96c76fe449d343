-- Which worker owns a key.
use Rattle.std.specs.Prelude.{ℕ, ◌*◌, ◌%◌, ◌^◌, bit_xor, List, fold}

-- the 64-bit FNV-1a hash of the bytes
abbrev pub hash_of : List ℕ → ℕ
hash_of key = fold (λ hash byte. (bit_xor hash byte * 1099511628211) % 2 ^ 64) 14695981039346656037
    key

-- the worker, of so many, that owns the key
abbrev pub owner_of : List ℕ → ℕ → ℕ
owner_of key workers = hash_of key % workers
