-- Bytes of a statement cut into words, numbers, quoted texts and signs. A byte that belongs to none gives a Wrong, which no statement has.
use Rattle.std.specs.Prelude.{ℕ, zero, suc, ◌+◌, ◌*◌, Bool, false, cond, not, ◌&&◌, ◌||◌, List, [], ◌∷◌, ◌++◌, codes, ◌==◌, nat_le, nat_lt}
use Rattle.meaning.specs.Tree.{Name}
use Rattle.meaning.specs.Meaning.{same_name, some}

pub data Token : Type 0 where
  Word : Name → Token
  Number : ℕ → Token
  Quoted : List ℕ → Token
  Sign : ℕ → Token
  Wrong : Token

-- signs of two bytes: <= <> || >=
abbrev pub at_most_sign : ℕ
at_most_sign = 256

abbrev pub differs_sign : ℕ
differs_sign = 257

abbrev pub joined_sign : ℕ
joined_sign = 258

abbrev pub at_least_sign : ℕ
at_least_sign = 259

abbrev pub k_select : Name
k_select = codes "select"

abbrev pub k_distinct : Name
k_distinct = codes "distinct"

abbrev pub k_from : Name
k_from = codes "from"

abbrev pub k_where : Name
k_where = codes "where"

abbrev pub k_group : Name
k_group = codes "group"

abbrev pub k_by : Name
k_by = codes "by"

abbrev pub k_having : Name
k_having = codes "having"

abbrev pub k_order : Name
k_order = codes "order"

abbrev pub k_asc : Name
k_asc = codes "asc"

abbrev pub k_desc : Name
k_desc = codes "desc"

abbrev pub k_limit : Name
k_limit = codes "limit"

abbrev pub k_offset : Name
k_offset = codes "offset"

abbrev pub k_and : Name
k_and = codes "and"

abbrev pub k_or : Name
k_or = codes "or"

abbrev pub k_not : Name
k_not = codes "not"

abbrev pub k_is : Name
k_is = codes "is"

abbrev pub k_null : Name
k_null = codes "null"

abbrev pub k_exists : Name
k_exists = codes "exists"

abbrev pub k_count : Name
k_count = codes "count"

abbrev pub k_sum : Name
k_sum = codes "sum"

abbrev pub k_min : Name
k_min = codes "min"

abbrev pub k_max : Name
k_max = codes "max"

abbrev pub k_create : Name
k_create = codes "create"

abbrev pub k_table : Name
k_table = codes "table"

abbrev pub k_unique : Name
k_unique = codes "unique"

abbrev pub k_index : Name
k_index = codes "index"

abbrev pub k_on : Name
k_on = codes "on"

abbrev pub k_drop : Name
k_drop = codes "drop"

abbrev pub k_insert : Name
k_insert = codes "insert"

abbrev pub k_into : Name
k_into = codes "into"

abbrev pub k_values : Name
k_values = codes "values"

abbrev pub k_update : Name
k_update = codes "update"

abbrev pub k_set : Name
k_set = codes "set"

abbrev pub k_delete : Name
k_delete = codes "delete"

abbrev pub k_begin : Name
k_begin = codes "begin"

abbrev pub k_commit : Name
k_commit = codes "commit"

abbrev pub k_rollback : Name
k_rollback = codes "rollback"

abbrev pub k_to : Name
k_to = codes "to"

abbrev pub k_savepoint : Name
k_savepoint = codes "savepoint"

abbrev pub k_release : Name
k_release = codes "release"

abbrev pub k_int : Name
k_int = codes "int"

abbrev pub k_text : Name
k_text = codes "text"

abbrev pub k_as : Name
k_as = codes "as"

abbrev pub keywords : List (List ℕ)
keywords = k_select ∷ k_distinct ∷ k_from ∷ k_where ∷ k_group ∷ k_by ∷ k_having ∷ k_order ∷ k_asc ∷ k_desc ∷ k_limit ∷ k_offset ∷ k_and ∷ k_or ∷ k_not ∷ k_is ∷ k_null ∷ k_exists ∷ k_count ∷ k_sum ∷ k_min ∷ k_max ∷ k_create ∷ k_table ∷ k_unique ∷ k_index ∷ k_on ∷ k_drop ∷ k_insert ∷ k_into ∷ k_values ∷ k_update ∷ k_set ∷ k_delete ∷ k_begin ∷ k_commit ∷ k_rollback ∷ k_to ∷ k_savepoint ∷ k_release ∷ k_int ∷ k_text ∷ k_as ∷ []

pub data Mode : Type 0 where
  Between : Mode
  InWord : Name → Mode
  InNumber : ℕ → Mode
  InQuotes : List ℕ → Mode
  AfterQuote : List ℕ → Mode
  AfterLess : Mode
  AfterMore : Mode
  AfterBar : Mode

abbrev pub from-to : ℕ → ℕ → ℕ → Bool
from-to a z b = nat_le a b && nat_le b z

abbrev pub letter : ℕ → Bool
letter b = from-to 97 122 b || from-to 65 90 b || b == 95

abbrev pub digit : ℕ → Bool
digit b = from-to 48 57 b

-- capitals are read as small letters
unfoldable pub small : ℕ → ℕ
small b = cond (from-to 65 90 b) (b + 32) b

unfoldable pub less_by : ℕ → ℕ → ℕ
less_by zero b = b
less_by (suc n) zero = 0
less_by (suc n) (suc b) = less_by n b

unfoldable pub is_in : ℕ → List ℕ → Bool
is_in b [] = false
is_in b (x ∷ xs) = b == x || is_in b xs

-- ( ) , . * + - =
abbrev pub signs : List ℕ
signs = 40 ∷ 41 ∷ 44 ∷ 46 ∷ 42 ∷ 43 ∷ 45 ∷ 61 ∷ []

abbrev pub spaces : List ℕ
spaces = 32 ∷ 9 ∷ 10 ∷ 13 ∷ []

unfoldable pub enters : ℕ → Mode
enters b = cond (letter b) (InWord (small b ∷ [])) (cond (digit b) (InNumber (less_by 48 b)) (cond (b == 39) (InQuotes []) (cond (b == 60) AfterLess (cond (b == 62) AfterMore (cond (b == 124) AfterBar Between)))))

unfoldable pub gives : ℕ → List Token
gives b = cond (is_in b signs) (Sign b ∷ []) (cond (letter b || digit b || is_in b spaces || b == 39 || b == 60 || b == 62 || b == 124) [] (Wrong ∷ []))

unfoldable pub after : Mode → ℕ → Mode
after Between b = enters b
after (InWord w) b = cond (letter b || digit b) (InWord (w ++ (small b ∷ []))) (enters b)
after (InNumber n) b = cond (digit b) (InNumber (10 * n + less_by 48 b)) (enters b)
after (InQuotes t) b = cond (b == 39) (AfterQuote t) (InQuotes (t ++ (b ∷ [])))
after (AfterQuote t) b = cond (b == 39) (InQuotes (t ++ (39 ∷ []))) (enters b)
after AfterLess b = cond (b == 61 || b == 62) Between (enters b)
after AfterMore b = cond (b == 61) Between (enters b)
after AfterBar b = cond (b == 124) Between (enters b)

unfoldable pub emits : Mode → ℕ → List Token
emits Between b = gives b
emits (InWord w) b = cond (letter b || digit b) [] (Word w ∷ gives b)
emits (InNumber n) b = cond (digit b) [] (cond (letter b) (Wrong ∷ []) (Number n ∷ gives b))
emits (InQuotes t) b = cond (nat_lt b 256) [] (Wrong ∷ [])
emits (AfterQuote t) b = cond (b == 39) [] (Quoted t ∷ gives b)
emits AfterLess b = cond (b == 61) (Sign at_most_sign ∷ []) (cond (b == 62) (Sign differs_sign ∷ []) (Sign 60 ∷ gives b))
emits AfterMore b = cond (b == 61) (Sign at_least_sign ∷ []) (Sign 62 ∷ gives b)
emits AfterBar b = cond (b == 124) (Sign joined_sign ∷ []) (Wrong ∷ gives b)

unfoldable pub ends : Mode → List Token
ends Between = []
ends (InWord w) = Word w ∷ []
ends (InNumber n) = Number n ∷ []
ends (InQuotes t) = Wrong ∷ []
ends (AfterQuote t) = Quoted t ∷ []
ends AfterLess = Sign 60 ∷ []
ends AfterMore = Sign 62 ∷ []
ends AfterBar = Wrong ∷ []

unfoldable pub tokens : Mode → List ℕ → List Token
tokens m [] = ends m
tokens m (b ∷ bs) = emits m b ++ tokens (after m b) bs

abbrev pub plain_name : Name → Bool
plain_name n = not (some (same_name n) keywords)
