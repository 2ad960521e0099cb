-- What the bytes of a strip tell of the header that it declares.
use Prim.Native.Nat.{ℕ, ◌+◌, ◌≤◌}
use mathlib.Core.Path.{◌≡◌, ap, ◌∙◌}
use mathlib.Core.List.{List, ◌++◌, map, map-append, append_assoc}
use native.Mathlib.Omega.{arith}
use lib.ListN.{length, get_or, take, drop, length-append, length-map}
use lib.Seq.{take_at}
use Rattle.limits.specs.Limits.{parameter_limit, local_limit, result_limit}
use Rattle.opcode.specs.Kind.{kind_byte}
use Rattle.rules.specs.Header.{Header, Declares, header_bytes, locals, kinds}

module _ {s : List ℕ} {h : Header} (d : Declares s h) where
  pub version-read : get_or s 3 0 ≡ h.version
  version-read = ap (λ (x : List ℕ). get_or x 3 0) d.bytes

  pub parameter-count : get_or s 5 0 ≡ length h.parameters
  parameter-count = ap (λ (x : List ℕ). get_or x 5 0) d.bytes

  pub further-count : get_or s 6 0 ≡ length h.further
  further-count = ap (λ (x : List ℕ). get_or x 6 0) d.bytes

  pub result_count_lem : get_or s 7 0 ≡ length h.results
  result_count_lem = ap (λ (x : List ℕ). get_or x 7 0) d.bytes

  pub local-count : get_or s 5 0 + get_or s 6 0 ≡ length (locals h)
  local-count = omega (arith, parameter-count, further-count, length-append h.parameters h.further)

  all_kinds : length (kinds h) ≡ length h.parameters + length h.further + length h.results
  all_kinds = length-append (locals h) h.results ∙ omega (arith, length-append h.parameters h.further)

  -- where the instructions start
  pub start : length (header_bytes h) ≡ 8 + (length h.parameters + length h.further) + length h.results
  start = let l = length-map (kinds h) kind_byte in omega (arith, all_kinds)

  pub inside : length (header_bytes h) ≤ length s
  inside = let l = ap length d.bytes ∙ length-append (header_bytes h) d.body in omega arith

  -- the kind bytes of the locals, parameters first
  after-counts : drop 8 s ≡ map kind_byte (locals h) ++ (map kind_byte h.results ++ d.body)
  after-counts =
      ap (drop 8) d.bytes ∙ ap (λ (x : List ℕ). x ++ d.body) (map-append kind_byte (locals h) h.results)
      ∙ append_assoc (map kind_byte (locals h)) (map kind_byte h.results) d.body

  pub local_kinds : (n : ℕ) → n ≡ get_or s 5 0 + get_or s 6 0 → take n (drop 8 s) ≡ map kind_byte (locals h)
  local_kinds n e =
      ap (take n) after-counts ∙ take_at (map kind_byte (locals h)) (map kind_byte h.results ++ d.body) n
      (omega (arith, length-map (locals h) kind_byte, length-append h.parameters h.further, e, parameter-count, further-count))

  pub parameter-kinds : (n : ℕ) → n ≡ get_or s 5 0 → take n (drop 8 s) ≡ map kind_byte h.parameters
  parameter-kinds n e =
      let rest = map kind_byte h.further ++ (map kind_byte h.results ++ d.body) in
      ap (take n)
      (after-counts ∙ ap (λ (x : List ℕ). x ++ (map kind_byte h.results ++ d.body)) (map-append kind_byte h.parameters h.further)
      ∙ append_assoc (map kind_byte h.parameters) (map kind_byte h.further) (map kind_byte h.results ++ d.body))
      ∙ take_at (map kind_byte h.parameters) rest n (omega (arith, length-map h.parameters kind_byte, e, parameter-count))

  -- the three counts, small enough for any sum of them
  pub record Counts : Type 0 where
    pub long : 8 ≤ length s
    pub parameters : get_or s 5 0 ≤ parameter_limit
    pub further : get_or s 6 0 ≤ local_limit
    pub results : get_or s 7 0 ≤ result_limit
    pub body : 8 + (get_or s 5 0 + get_or s 6 0) + get_or s 7 0 ≡ length (header_bytes h)

  pub counts-read : Counts
  counts-read =
      record {
        long = omega (arith, start, inside);
        parameters = omega (arith, parameter-count, d.few.parameters);
        further = omega (arith, further-count, d.few.further);
        results = omega (arith, result_count_lem, d.few.results);
        body = omega (arith, parameter-count, further-count, result_count_lem, start);
      }
