-- Changed entries are merged as the entries.
use Rattle.std.proofs.Common.{◌≡◌, ℕ, zero, suc, Bool, true, false, ◌==◌, cond, List, [], ◌∷◌, ◌++◌, map, length, take, drop, refl, ap, ◌∙◌}
use Rattle.std.specs.List.{filter, flat_map, range_with_len}
use Rattle.std.proofs.lemmas.List.{length-map}
use Rattle.qws_base.specs.Merges.{Stamped, numbered, stamped, merged_at, changed_by, MergeLaw}

map_append : {X Y : Type 0} (f : X → Y) (xs ys : List X) → map f xs ++ map f ys ≡ map f (xs ++ ys)
map_append f [] ys = refl
map_append f (x ∷ xs) ys = ap (λ zs. f x ∷ zs) (map_append f xs ys)

first_of_map : {X Y : Type 0} (f : X → Y) (k : ℕ) (xs : List X) → take 1 (drop k (map f xs)) ≡ map f (take 1 (drop k xs))
first_of_map f zero [] = refl
first_of_map f zero (x ∷ xs) = refl
first_of_map f (suc k) [] = refl
first_of_map f (suc k) (x ∷ xs) = first_of_map f k xs

numbered_map : {X Y : Type 0} (f : X → Y) (journal : List X) (e : ℕ) → numbered (map f journal) e ≡ map f (numbered journal e)
numbered_map f journal zero = refl
numbered_map f journal (suc k) = first_of_map f k journal

stamped_by : {X Y : Type 0} (f : X → Y) (s : Stamped X) (here : Bool) (b : List (Stamped X)) (rest : List (Stamped Y)) → map (λ t. t.entry) rest ≡ map f (map (λ t. t.entry) b)
    → map (λ t. t.entry) (cond here (changed_by f s ∷ rest) rest) ≡ map f (map (λ t. t.entry) (cond here (s ∷ b) b))
stamped_by f s true b rest e = ap (λ ys. f s.entry ∷ ys) e
stamped_by f s false b rest e = e

stamped_map : {X Y : Type 0} (f : X → Y) (e : ℕ) (book : List (Stamped X)) → stamped e (map (changed_by f) book) ≡ map f (stamped e book)
stamped_map f e [] = refl
stamped_map f e (s ∷ book) = stamped_by f s (s.stamp == e) (filter (λ t. t.stamp == e) book) (filter (λ t. t.stamp == e) (map (changed_by f) book)) (stamped_map f e book)

books_map : {X Y : Type 0} (f : X → Y) (e : ℕ) (books : List (List (Stamped X))) → flat_map (stamped e) (map (map (changed_by f)) books) ≡ map f (flat_map (stamped e) books)
books_map f e [] = refl
books_map f e (book ∷ books) =
    ap (λ ys. ys ++ flat_map (stamped e) (map (map (changed_by f)) books)) (stamped_map f e book)
    ∙ ap (λ ys. map f (stamped e book) ++ ys) (books_map f e books)
    ∙ map_append f (stamped e book) (flat_map (stamped e) books)

at_map : {X Y : Type 0} (f : X → Y) (journal : List X) (books : List (List (Stamped X))) (e : ℕ) → merged_at (map f journal) (map (map (changed_by f)) books) e ≡ map f (merged_at journal books e)
at_map f journal books e =
    ap (λ ys. ys ++ flat_map (stamped e) (map (map (changed_by f)) books)) (numbered_map f journal e)
    ∙ ap (λ ys. map f (numbered journal e) ++ ys) (books_map f e books)
    ∙ map_append f (numbered journal e) (flat_map (stamped e) books)

all_map : {X Y : Type 0} (f : X → Y) (journal : List X) (books : List (List (Stamped X))) (es : List ℕ) → flat_map (merged_at (map f journal) (map (map (changed_by f)) books)) es ≡ map f (flat_map (merged_at journal books) es)
all_map f journal books [] = refl
all_map f journal books (e ∷ es) =
    ap (λ ys. ys ++ flat_map (merged_at (map f journal) (map (map (changed_by f)) books)) es) (at_map f journal books e)
    ∙ ap (λ ys. map f (merged_at journal books e) ++ ys) (all_map f journal books es)
    ∙ map_append f (merged_at journal books e) (flat_map (merged_at journal books) es)

pub merge_law : (X Y : Type 0) → MergeLaw X Y
merge_law X Y f journal books =
    ap (λ n. flat_map (merged_at (map f journal) (map (map (changed_by f)) books)) (range_with_len 0 (suc n))) (length-map journal f)
    ∙ all_map f journal books (range_with_len 0 (suc (length journal)))
