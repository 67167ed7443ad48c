pub mod RoomLaws
